mod Flags
pub mod Judged
mod Lifted
mod Columns
pub mod Steps
pub mod Walks
pub mod Unique
mod Examples
