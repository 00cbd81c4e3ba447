pub mod Fields
pub mod Faults
pub mod Read
pub mod Heads
pub mod FoundSoFar
