pub mod InScratch
