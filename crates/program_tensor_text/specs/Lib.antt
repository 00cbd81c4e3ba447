pub mod TensorText
