pub mod EndLaws
pub mod PartLaws
pub mod EncodingLaws
pub mod PlainLaws
