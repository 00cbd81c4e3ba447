mod Copied
mod Parts
mod Labels
pub mod InTurn
pub mod Turns
pub mod Answered
pub mod Unique
