pub mod CurveLaws
pub mod LookupLaws
pub mod RefreshLaws
pub mod Edges
