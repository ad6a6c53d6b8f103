pub mod Texts
pub mod Steps
pub mod Fronts
pub mod Kept
pub mod Listed
pub mod Items
pub mod Ranges
pub mod Indexes
