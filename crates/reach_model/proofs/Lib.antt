pub mod Read
pub mod Accepted
pub mod Found
pub mod Kept
pub mod BuiltSections
pub mod Indexes
pub mod Places
mod AddressDefinitions
mod Definitions
