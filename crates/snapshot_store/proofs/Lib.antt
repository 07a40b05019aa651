pub mod Changed
pub mod Keeping
pub mod Later
