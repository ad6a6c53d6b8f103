pub mod NumeralLaws
pub mod RunLaws
pub mod StackLaws
