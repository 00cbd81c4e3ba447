pub mod ManyStepExports
