pub mod TimeSteps
