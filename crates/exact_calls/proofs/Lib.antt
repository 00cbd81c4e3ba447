pub mod AcceptedAxis
pub mod AcceptedGrid
pub mod Located
pub mod AcceptedQuery
pub mod Example
pub mod TheCalls
