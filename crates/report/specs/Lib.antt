pub mod Report
pub mod Feeding
