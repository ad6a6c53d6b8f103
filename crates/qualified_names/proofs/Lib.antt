pub mod LinkLaws
mod NameLaws
mod AroundLaws
mod IndexedLinks
mod Mains
mod EntryParts
pub mod RunLaws
