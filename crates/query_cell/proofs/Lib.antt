mod Apart
mod Spotting
mod Runs
pub mod Removing
mod Fewer
