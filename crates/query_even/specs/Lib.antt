pub mod Qualities
pub mod Lacking
