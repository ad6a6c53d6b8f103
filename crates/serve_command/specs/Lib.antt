pub mod SessionResults
pub mod Listens
