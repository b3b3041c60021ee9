pub mod Arriving
pub mod Code
