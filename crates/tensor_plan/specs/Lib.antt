pub mod PlanOfEnds
pub mod Cycle
pub mod Plans
