pub mod OwnRefusals
pub mod OwnSizes
pub mod Slots
