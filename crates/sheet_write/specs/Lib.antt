pub mod SheetOf
pub mod Write
pub mod PartsWithRoom
pub mod RoundTrip
