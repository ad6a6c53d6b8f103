pub mod Caches
pub mod Cached
pub mod Places
pub mod Tellings
pub mod Savings
pub mod Askings
pub mod Buildings
