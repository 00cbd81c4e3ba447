pub mod Relations
pub mod Results
pub mod KeepsBounds
pub mod TheBounds
pub mod BoundedCalls
pub mod Example
