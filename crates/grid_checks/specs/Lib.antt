pub mod Checked
pub mod Tables
pub mod Check
pub mod SizesFound
pub mod Rising
