pub mod Totals
pub mod Counting
