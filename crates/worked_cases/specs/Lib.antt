pub mod Cases
pub mod FixedCases
pub mod LoneCases
pub mod PairCases
pub mod TotalCases
pub mod FloorCases
