pub mod Guesses
pub mod Turns
pub mod Quotients
pub mod Answers
