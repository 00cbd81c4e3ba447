pub mod Scan
pub mod Front
pub mod Finite
pub mod Quarters
pub mod Listed
