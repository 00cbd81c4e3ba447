pub mod Among
pub mod Apart
pub mod Tested
pub mod Classed
pub mod Told
