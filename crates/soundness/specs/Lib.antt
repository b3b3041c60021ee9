pub mod SoundEntries
pub mod SoundOrder
pub mod Code
