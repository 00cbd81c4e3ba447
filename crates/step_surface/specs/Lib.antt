pub mod OnPoints
pub mod Indices
pub mod OneSample
pub mod SteppedMeaning
