mod CutLaws
mod LastLaws
mod LengthLaws
mod PartLaws
pub mod ScopeLaws
pub mod StayLaws
