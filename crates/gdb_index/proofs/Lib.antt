pub mod PathLaws
pub mod StepLaws
pub mod NameLaws
pub mod ListLaws
pub mod TagLaws
pub mod ItemNameLaws
pub mod ItemLaws
pub mod UnitLaws
mod RangeLaws
mod TailLaws
mod EntryLaws
mod IndexLaws
