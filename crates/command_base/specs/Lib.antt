pub mod FilesRead
pub mod Statuses
pub mod Stops
pub mod Replies
pub mod GdbLooks
pub mod Tables
