pub mod SheetExports
pub mod RoundTrip
