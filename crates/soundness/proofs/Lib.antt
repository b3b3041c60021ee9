pub mod SoundFacts
pub mod SoundLaws
