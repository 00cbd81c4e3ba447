pub mod AroundReads
