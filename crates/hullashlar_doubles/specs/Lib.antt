pub mod DoublesExports
