pub mod Bytes
pub mod Affixes
pub mod Ends
pub mod Marks
pub mod Parts
pub mod AdaNames
pub mod PlainNames
