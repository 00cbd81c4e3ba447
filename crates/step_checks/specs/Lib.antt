pub mod StepChecks
pub mod StepsChecked
