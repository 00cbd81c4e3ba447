mod Found
mod Answers
mod Positions
pub mod Meaning
