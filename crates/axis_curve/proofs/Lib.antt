pub mod SlopeTurns
pub mod PublicCalls
