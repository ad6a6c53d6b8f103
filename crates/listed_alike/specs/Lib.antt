pub mod ListedAlike
