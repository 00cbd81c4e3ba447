mod Cells
mod Weighing
mod Finding
pub mod Accepted
pub mod Answering
mod Modes
pub mod Promised
pub mod Held
