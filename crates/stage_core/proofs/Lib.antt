mod ListLaws
mod TaskLaws
mod SlotLaws
mod CutLaws
mod ProgressLaws
mod StateLaws
mod OpeningLaws
mod KindLaws
mod FinishLaws
mod UnitCount
mod CoreLaws
pub mod Crossing
