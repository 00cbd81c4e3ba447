pub mod Front
pub mod LookedAt
