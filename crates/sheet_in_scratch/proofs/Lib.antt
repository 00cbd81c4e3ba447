pub mod Standing
pub mod OfSheet
