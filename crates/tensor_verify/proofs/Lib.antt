mod Numbers
mod Indices
mod Telling
mod Checking
mod Verifying
pub mod Unique
pub mod Fits
pub mod Whole
