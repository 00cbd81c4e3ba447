pub mod Stores
pub mod RowsOfBothEnds
pub mod Endpoints
pub mod PeriodicLane
