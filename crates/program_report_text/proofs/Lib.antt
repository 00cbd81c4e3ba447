mod Lengths
mod Lines
mod Loops
pub mod Promises
mod Unique
mod Examples
