pub mod Ahead
pub mod Entries
pub mod Found
pub mod Programs
pub mod Places
pub mod Runs
