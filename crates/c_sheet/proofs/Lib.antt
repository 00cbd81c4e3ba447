pub mod Exported
pub mod SheetAxes
pub mod Demand3
pub mod Unique
pub mod Accepted
pub mod Told
pub mod RoundTrip
