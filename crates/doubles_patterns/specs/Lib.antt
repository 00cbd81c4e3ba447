pub mod Doubles
pub mod Patterns
pub mod Finite
