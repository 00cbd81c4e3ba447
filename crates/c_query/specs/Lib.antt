pub mod QueryExports
