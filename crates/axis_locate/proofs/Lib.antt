pub mod Halving
mod Split
pub mod Among
pub mod Accepted
mod Answered
mod Sides
pub mod Unheld
