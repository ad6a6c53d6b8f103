pub mod Ends
pub mod Jobs
pub mod Teams
pub mod Outputs
pub mod Drawn
pub mod Files
pub mod Written
