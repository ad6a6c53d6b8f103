pub mod CountLaws
pub mod FileLaws
mod PlaceLaws
mod ShelfLaws
mod TakenLaws
pub mod WrittenLaws
