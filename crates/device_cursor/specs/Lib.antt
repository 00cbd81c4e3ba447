pub mod DeviceCurve
pub mod Columns
