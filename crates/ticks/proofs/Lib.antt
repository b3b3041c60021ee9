pub mod KeyRenewal
pub mod TickSteps
