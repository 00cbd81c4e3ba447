pub mod Outcome
pub mod Loading
pub mod Finishing
pub mod Promises
pub mod Building
pub mod Changing
pub mod Demand3
pub mod EitherOrder
