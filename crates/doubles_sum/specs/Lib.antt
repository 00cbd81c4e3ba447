pub mod Aligned
pub mod BothOrders
