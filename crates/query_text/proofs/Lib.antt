mod AnswerLaws
mod BufferLaws
mod DigitLaws
mod EntryLaws
mod GainLaws
mod HexLaws
mod LineLaws
pub mod LongLines
mod LookLaws
mod NewlineLaws
pub mod PlaceLaws
pub mod QuotedBytes
pub mod SendingLaws
pub mod SessionLaws
mod ShortLines
pub mod TextLaws
mod ElementLaws
mod TranscriptLaws
mod HitLaws
