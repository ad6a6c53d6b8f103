mod Digits
mod Counting
