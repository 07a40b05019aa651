pub mod Getters
pub mod Refusals
pub mod Values
pub mod Numbers
