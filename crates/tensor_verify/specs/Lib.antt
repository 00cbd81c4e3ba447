pub mod Verify
pub mod Compared
