pub mod Boards
pub mod Turns
pub mod Kept
pub mod Readers
pub mod Marks
pub mod LookUps
pub mod Loans
pub mod Seen
