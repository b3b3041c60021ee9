pub mod Image
pub mod Code
