mod Roots
mod Entries
mod Reading
pub mod SameUnits
mod Refusals
mod Searching
mod Walking
mod Alike
mod Keys
mod Rests
mod Once
mod Filters
mod Located
mod NodeItems
mod LinkedLaws
pub mod Runs
mod UnitRanges
