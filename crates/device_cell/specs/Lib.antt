pub mod DeviceCell
pub mod CellWeights
