mod Examples
mod Patterns
pub mod Puts
pub mod Decimals
pub mod HexDigits
mod ReadBack
