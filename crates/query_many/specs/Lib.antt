pub mod ManyCalls
pub mod ByWay
