mod FoundSlots
mod OwnRows
pub mod Exported
pub mod Unique
pub mod Whole
