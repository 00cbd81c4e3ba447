pub mod Sizes
pub mod Packing
pub mod Values
pub mod Signs
pub mod Magnitudes
pub mod Specials
