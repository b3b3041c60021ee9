pub mod KeyLaws
pub mod KeySteps
pub mod OpenJobs
pub mod HeadLaws
