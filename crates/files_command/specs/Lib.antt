pub mod Listings
pub mod Listed
