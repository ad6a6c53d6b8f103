pub mod TellingLaws
pub mod FilesLaws
pub mod BuildingLaws
pub mod SpotLaws
pub mod TiedLaws
