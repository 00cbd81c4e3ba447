mod AtTheEnds
pub mod Hermite
pub mod Corner
pub mod Knots
pub mod Surfaces
pub mod InCells
pub mod Measured
pub mod EvenMeasured
pub mod Example
pub mod EvenExample
pub mod Samples
pub mod EvenSamples
mod SheetFits
pub mod Firmware
pub mod Exceptions
