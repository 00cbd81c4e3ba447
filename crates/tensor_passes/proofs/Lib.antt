pub mod Pass
pub mod Refresh
pub mod Count
pub mod PlannedPasses
pub mod MaskTurns
pub mod PlannedAxis
pub mod AxisTurns
