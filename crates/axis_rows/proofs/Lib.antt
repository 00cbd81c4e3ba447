pub mod Interior
pub mod Ends
pub mod Stores
