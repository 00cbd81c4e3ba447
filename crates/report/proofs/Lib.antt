mod Fronts
mod CountedAlone
mod Streams
pub mod Progressing
pub mod Pieces
mod Bounds
mod Unique
mod Examples
