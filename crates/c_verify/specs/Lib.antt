pub mod VerifyExports
