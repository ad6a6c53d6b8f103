pub mod NamesLooks
