pub mod ManyPoints
pub mod PointByPoint
