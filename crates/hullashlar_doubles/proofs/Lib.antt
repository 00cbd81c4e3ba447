pub mod Truths
pub mod Unique
