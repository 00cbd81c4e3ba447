mod Lines
pub mod Promises
pub mod Unique
mod Examples
