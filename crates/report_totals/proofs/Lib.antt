mod Lists
pub mod Orders
pub mod Masks
pub mod Counts
pub mod Sheets
pub mod Each
mod Meaning
mod Examples
