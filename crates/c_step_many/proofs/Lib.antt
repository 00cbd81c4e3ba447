mod Given
pub mod Unique
