pub mod LevelLaws
pub mod Tables
