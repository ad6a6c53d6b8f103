pub mod TextLaws
mod HashLaws
mod TailLaws
