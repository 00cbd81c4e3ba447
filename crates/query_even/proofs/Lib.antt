pub mod LackingAxis
mod Passing
mod Answers
pub mod HoldIsExtend
