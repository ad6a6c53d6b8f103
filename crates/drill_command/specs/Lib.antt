pub mod Drills
pub mod DrillResults
pub mod Summaries
