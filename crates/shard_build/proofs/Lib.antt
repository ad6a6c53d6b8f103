mod FoundLaws
mod TokenSteps
mod EntrySteps
mod SpanEnds
mod SpanPlaces
mod OpenLaws
mod FrameLaws
pub mod NodeLaws
mod UnitLaws
mod ImportLaws
mod UnitEnd
mod RunLaws
mod RunEnds
pub mod UnitPlaces
pub mod OnePlace
mod FoundNodes
mod FoundSpans
mod FoundPoints
pub mod UnitNumbers
mod FoundShards
pub mod AgainLaws
pub mod AgainUnits
pub mod WholeFile
mod TextLaws
mod AboveLaws
pub mod UnitNodes
mod UnitRead
pub mod MapLaws
mod UnkeptLaws
pub mod WalkOfUnit
mod SmallLaws
