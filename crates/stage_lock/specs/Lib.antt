pub mod Shares
pub mod Seen
pub mod Rule
pub mod Moves
pub mod Facts
pub mod Closing
pub mod LockLaws
