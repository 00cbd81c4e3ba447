pub mod BlendErrors
