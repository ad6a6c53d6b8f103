pub mod WalkLaws
pub mod UnitLaws
pub mod PlacedLaws
pub mod SeenLaws
pub mod AroundLaws
pub mod ScopeLaws
pub mod KeptLaws
pub mod StaticLaws
