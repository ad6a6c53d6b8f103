pub mod KeptAlike
