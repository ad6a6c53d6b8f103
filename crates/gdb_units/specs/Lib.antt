pub mod Given
pub mod Imported
pub mod Spread
