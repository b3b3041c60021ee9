pub mod DrainLaws
pub mod WorkLaws
