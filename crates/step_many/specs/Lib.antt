pub mod ManySteps
pub mod StepByStep
