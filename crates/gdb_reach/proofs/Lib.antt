pub mod WayLaws
pub mod AroundLaws
pub mod NextLaws
pub mod StandLaws
pub mod RunLaws
