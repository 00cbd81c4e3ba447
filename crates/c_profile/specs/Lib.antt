pub mod ProfileExports
