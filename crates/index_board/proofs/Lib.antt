mod Looks
mod KeptLaws
pub mod Openings
mod Waits
pub mod MarkLaws
pub mod KeepLaws
mod Fills
mod TurnLaws
pub mod Crossing
