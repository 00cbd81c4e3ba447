pub mod AmongKnots
pub mod Meaning
