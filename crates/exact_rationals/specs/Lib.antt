pub mod Rationals
pub mod Values
