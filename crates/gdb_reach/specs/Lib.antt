pub mod Ways
pub mod Around
pub mod Parents
pub mod Standing
pub mod Laws
pub mod Runs
