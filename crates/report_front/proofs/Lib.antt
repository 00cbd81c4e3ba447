mod Agree
pub mod Tails
pub mod Cuts
