pub mod Answers
pub mod QuickIsFull
pub mod HoldIsExtend
