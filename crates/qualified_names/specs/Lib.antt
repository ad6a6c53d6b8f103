pub mod Indexed
pub mod Paths
pub mod Fronts
pub mod Files
pub mod Sought
