pub mod Stores
pub mod Indexes
pub mod Adds
pub mod Programs
pub mod Stops
pub mod ByGdb
