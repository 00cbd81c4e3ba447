pub mod Planned
pub mod Passes
