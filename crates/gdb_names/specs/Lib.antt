pub mod Seen
pub mod Both
pub mod Fronts
pub mod FullNames
pub mod FileNames
