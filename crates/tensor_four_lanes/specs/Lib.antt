pub mod Sweeps
pub mod Groups
