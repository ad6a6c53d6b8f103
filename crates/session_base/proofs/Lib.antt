pub mod SessionTexts
pub mod SessionBoards
pub mod Crossing
