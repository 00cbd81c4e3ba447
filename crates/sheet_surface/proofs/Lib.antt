pub mod Small
pub mod Answers
pub mod Values
pub mod Unique
pub mod RefusalsAreNoAnswers
pub mod BuildThenQuery
