pub mod GdbAlike
pub mod NamesAlike
