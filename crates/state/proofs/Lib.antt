pub mod BlockLaws
pub mod EntryStores
pub mod TailLaws
