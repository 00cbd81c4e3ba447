mod Examples
pub mod Texts
