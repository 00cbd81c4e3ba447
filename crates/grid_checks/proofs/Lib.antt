pub mod Rows
mod Counting
pub mod Points
pub mod ThenOutcome
pub mod Accepted
pub mod FiniteKnots
pub mod RisingKnots
