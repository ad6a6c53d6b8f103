mod Definitions
pub mod TilingLaws
pub mod Meanings
pub mod Scans
pub mod UnitReads
pub mod UnitTilingLaws
pub mod ValueReads
pub mod TextReads
pub mod TokenReads
pub mod ParentLaws
pub mod OrderLaws
pub mod FirstEntry
pub mod TextLaws
pub mod FirstSome
pub mod Pairs
mod Halves
pub mod Orders
pub mod IndexOrders
pub mod FirstFaults
pub mod IndexSizes
pub mod PassedOver
pub mod Located
pub mod Followed
pub mod LinkLaws
mod EntryLaws
mod SpanLaws
pub mod InnermostLaws
pub mod UnitsApart
pub mod SpanOrder
pub mod ShardRoots
pub mod ShardNodes
pub mod ShardRuns
pub mod UnitLanguages
pub mod ResumeLaws
pub mod SimpleNames
mod FaultLaws
pub mod VisitedLaws
pub mod StageLaws
pub mod UnitAtLaws
pub mod WalkLaws
pub mod PieceLaws
pub mod MaximalLaws
pub mod PathLaws
pub mod SlotLaws
pub mod LookupLaws
pub mod MachineOnce
mod MachineParts
pub mod MachineHolds
mod MachineSteps
pub mod EachLaws
pub mod JobFaults
mod LevelLaws
mod LevelSteps
pub mod CoreRight
pub mod LeafLaws
pub mod SpanLeafLaws
pub mod GrownTexts
