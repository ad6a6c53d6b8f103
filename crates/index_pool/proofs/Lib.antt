pub mod EndLaws
mod PassLaws
mod JobLaws
pub mod Lists
mod Next
mod Walks
mod Given
mod ScanJob
mod LinkJob
pub mod RangeLoop
mod Built
mod MainJob
mod Picks
mod Owners
mod NameJob
mod Counts
mod MergeJob
mod Performs
pub mod FileUnits
pub mod FileEntries
pub mod WriteJob
