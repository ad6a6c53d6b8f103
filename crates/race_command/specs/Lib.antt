pub mod Transcripts
pub mod Races
pub mod Runners
pub mod RaceEnds
