pub mod Shifts
pub mod Runs
pub mod WordsRead
pub mod Patches
pub mod Writes
pub mod Rows
pub mod Numbers
pub mod WordsWritten
