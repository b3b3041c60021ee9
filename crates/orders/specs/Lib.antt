pub mod Lone
pub mod Code
