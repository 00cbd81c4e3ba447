pub mod ProfileCalls
pub mod Profiled
