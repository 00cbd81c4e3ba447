pub mod Answers
pub mod Unique
pub mod DirectIsEven
pub mod DirectReads
