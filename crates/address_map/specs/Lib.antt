pub mod Overlay
pub mod Laws
