pub mod Ranges
pub mod Kinds
pub mod Modes
pub mod Editions
pub mod Classes
