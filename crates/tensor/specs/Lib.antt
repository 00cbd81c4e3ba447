pub mod Working
pub mod Changes
pub mod EitherOrder
