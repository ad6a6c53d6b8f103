pub mod Tables
pub mod Edges
pub mod Sets
pub mod Laws
