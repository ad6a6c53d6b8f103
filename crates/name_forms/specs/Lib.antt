pub mod Pieces
pub mod Scoped
pub mod Coded
