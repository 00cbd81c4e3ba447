pub mod Refusing
pub mod Answered
pub mod Unique
