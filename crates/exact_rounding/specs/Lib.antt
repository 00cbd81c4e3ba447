pub mod Near
pub mod Errors
