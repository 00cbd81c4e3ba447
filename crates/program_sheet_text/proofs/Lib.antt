mod Told
pub mod Promises
pub mod Unique
