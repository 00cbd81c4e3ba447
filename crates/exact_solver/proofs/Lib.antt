pub mod Solver
