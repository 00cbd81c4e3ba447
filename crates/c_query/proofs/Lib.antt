pub mod Given
pub mod Exported
pub mod Unique
pub mod Measured
