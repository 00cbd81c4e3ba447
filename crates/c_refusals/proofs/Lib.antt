pub mod Rows
pub mod Lengths
pub mod Exported
mod EvenSlots
