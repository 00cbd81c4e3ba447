pub mod ManyExports
