pub mod Comparisons
pub mod Compared
