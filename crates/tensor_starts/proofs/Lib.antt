pub mod Starts
pub mod Agreement
pub mod Axes
pub mod Cursors
