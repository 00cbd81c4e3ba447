pub mod StepTurns
pub mod DivisorTurns
pub mod SecondTurns
pub mod EndRows
pub mod PlanOfEnds
pub mod PlanOfCycle
pub mod Plans
