pub mod Generated
pub mod LawsGenerated
pub mod Packed
pub mod PlainForm
