pub mod Lengths
pub mod Exported
pub mod Unique
pub mod Meaning
