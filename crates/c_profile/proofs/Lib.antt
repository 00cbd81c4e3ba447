mod Exported
pub mod Unique
