pub mod LaneInScratch
