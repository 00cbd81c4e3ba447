pub mod Walked
pub mod ByFour
