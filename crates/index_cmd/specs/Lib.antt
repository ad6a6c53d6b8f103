pub mod Requests
pub mod Replies
pub mod Stores
pub mod Caching
pub mod Results
pub mod Runs
pub mod Tasks
pub mod Doings
