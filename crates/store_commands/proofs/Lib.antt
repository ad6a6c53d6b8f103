pub mod AddingLaws
pub mod KindLaws
mod ByGdbLaws
mod StoreLaws
