mod Stepping
mod Answers
pub mod OneSample
pub mod SteppedMeaning
