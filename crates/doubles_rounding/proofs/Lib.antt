pub mod Nearness
pub mod Raising
pub mod Shifts
pub mod Placing
