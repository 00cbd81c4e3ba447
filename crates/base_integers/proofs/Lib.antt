pub mod Differences
pub mod Signs
pub mod Sizes
pub mod Tests
