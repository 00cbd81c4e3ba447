pub mod SheetSurface
pub mod OnTheStack
