mod ListenLaws
mod Crossing
