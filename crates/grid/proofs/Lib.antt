pub mod Points
pub mod Products
pub mod Knots
pub mod Strides
pub mod Placing
pub mod Corners
