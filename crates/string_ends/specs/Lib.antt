pub mod Texts
pub mod Formulas
pub mod Tails
