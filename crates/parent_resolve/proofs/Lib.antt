pub mod Entries
mod SignedLaws
pub mod NodeLaws
mod AdaLaws
mod OpenedTags
mod PlaceLaws
mod VisitLaws
mod ImporterLaws
pub mod ChainLaws
mod SignatureLaws
mod FollowLaws
mod TracedLaws
pub mod PathSteps
pub mod Outwards
mod PassedLaws
mod EnteredLaws
mod Steps
mod Lengths
mod LinkParts
pub mod KeptLaws
pub mod NodeLinks
pub mod RunLinks
mod ComponentLaws
pub mod CutFile
pub mod ChainEnds
pub mod TableLaws
mod DeclaredLaws
