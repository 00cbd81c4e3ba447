pub mod Lines
pub mod PutBytes
