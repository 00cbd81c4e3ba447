pub mod DirectExports
