pub mod Words
pub mod Fits
pub mod Formats
pub mod Readers
pub mod Journals
pub mod Laws
pub mod Cuts
