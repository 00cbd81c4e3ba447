pub mod Place
pub mod Zeros
