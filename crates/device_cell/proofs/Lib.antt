pub mod Weighed
pub mod Nearest
pub mod Reach
pub mod Given
pub mod Answers
pub mod Alike
pub mod Unique
mod Examples
