pub mod Going
pub mod Beginning
