pub mod PointsAndModes
pub mod Ways
pub mod CellsFound
pub mod AnswerByWay
