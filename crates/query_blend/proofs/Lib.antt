mod Filling
mod Running
mod Removal
pub mod Blending
