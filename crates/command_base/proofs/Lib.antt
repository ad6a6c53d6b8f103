pub mod FileReads
pub mod ReplyLaws
pub mod TableLaws
pub mod BoardLaws
mod GdbLaws
