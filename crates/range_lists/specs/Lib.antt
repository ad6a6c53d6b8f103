pub mod Homes
pub mod Same
pub mod Lists
pub mod Found
pub mod Gives
pub mod Nodes
pub mod Units
