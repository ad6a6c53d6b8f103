pub mod Headers
pub mod Found
pub mod Front
pub mod Heads
pub mod Images
pub mod Inside
pub mod Resolved
pub mod TextLimits
