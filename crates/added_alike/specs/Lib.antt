pub mod AddedAlike
pub mod AddedMeaning
