pub mod Refusing
pub mod Stepping
pub mod Unique
