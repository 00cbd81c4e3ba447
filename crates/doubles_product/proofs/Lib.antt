pub mod Halves
pub mod Products
pub mod Answers
