pub mod First
pub mod Spacing
mod Direct
mod Counts
pub mod Cells
mod Steps
pub mod DirectCells
pub mod Tenths
