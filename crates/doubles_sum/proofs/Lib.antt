pub mod Alignments
pub mod Combined
pub mod Sums
