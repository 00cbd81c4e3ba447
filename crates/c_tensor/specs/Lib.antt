pub mod TensorExports
