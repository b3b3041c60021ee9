pub mod Code
pub mod Tables
