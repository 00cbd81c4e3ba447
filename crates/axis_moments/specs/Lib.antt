pub mod SolvedMoments
pub mod SlopeAndValue
