pub mod Curve
pub mod Refresh
pub mod Cases
