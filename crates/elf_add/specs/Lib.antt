pub mod Adders
pub mod Headers
pub mod Pieces
pub mod Parts
pub mod Held
