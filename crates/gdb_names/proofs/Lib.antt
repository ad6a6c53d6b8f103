pub mod JoinLaws
mod AdaLaws
pub mod BothLaws
