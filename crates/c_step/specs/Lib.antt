pub mod Directions
pub mod StepExports
