pub mod Weights
pub mod Measured
pub mod EvenMeasured
pub mod Samples
pub mod EvenSamples
pub mod Firmware
pub mod Exceptions
