pub mod Unimodal
pub mod Closing
pub mod Together
pub mod Closest
