pub mod Closest
pub mod Nearness
pub mod Rounded
pub mod Operations
pub mod Approx
