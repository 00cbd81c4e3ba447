pub mod Solved
pub mod WalkTurns
pub mod FourTurns
