pub mod GridOfCall
pub mod Strides
