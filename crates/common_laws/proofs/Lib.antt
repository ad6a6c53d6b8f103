pub mod Booleans
pub mod Options
pub mod Members
pub mod Filters
pub mod Lists
pub mod Appended
pub mod Ranges
pub mod Numbers
