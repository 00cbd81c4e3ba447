pub mod Agreement
pub mod Corners
pub mod Cyclic
pub mod Difference
pub mod Elimination
pub mod Solution
pub mod Substitution
