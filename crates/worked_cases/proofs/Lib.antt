pub mod Listing
pub mod Exception
pub mod PairNeeds
pub mod Starred
