mod FrontLaws
pub mod ResultLaws
pub mod TextOrder
mod SortLaws
mod SeenLaws
mod PairLaws
mod LabelLaws
mod SpelledLaws
mod MarkLaws
mod SimpleLaws
mod JoinLaws
mod GroupLaws
pub mod NamesLaws
pub mod OrderLaws
mod BelowLaws
mod MergedLaws
mod ListedLaws
mod ListingLaws
mod CountingLaws
pub mod RankLaws
mod SearchLaws
pub mod CountLaws
mod PlainLaws
pub mod TextLists
pub mod PlacedEntries
