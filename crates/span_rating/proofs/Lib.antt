pub mod OneValue
pub mod Least
