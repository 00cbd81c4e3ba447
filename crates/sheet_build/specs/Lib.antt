pub mod SheetTensor
pub mod LentEnough
