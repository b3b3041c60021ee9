pub mod Code
pub mod Held
pub mod Reading
