pub mod Standing
pub mod Shifted
