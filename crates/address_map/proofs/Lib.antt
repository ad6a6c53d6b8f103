mod Lists
mod UnitAt
mod Adding
mod Fronts
mod Filling
mod Laying
mod Ascending
pub mod Halves
mod Searching
mod Order
mod FirstUnit
