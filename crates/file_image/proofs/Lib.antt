mod Tables
mod Named
mod NamedPlaces
mod Fronts
mod CompressedLaws
mod Opened
mod Loops
mod InsideLaws
mod Both
pub mod Images
mod TextLaws
