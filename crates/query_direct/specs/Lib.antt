pub mod DirectCalls
