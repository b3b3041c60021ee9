pub mod ArriveLaws
pub mod TotalLaws
