pub mod Slots
pub mod Found
pub mod InModes
