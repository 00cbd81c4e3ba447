pub mod Parts
pub mod Gathering
pub mod Storing
pub mod Lane
