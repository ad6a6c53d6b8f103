pub mod Heard
pub mod Floors
pub mod Sessions
