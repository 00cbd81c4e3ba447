pub mod Exported
pub mod Unique
