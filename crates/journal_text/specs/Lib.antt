pub mod Words
pub mod Entries
pub mod Lists
pub mod Formats
pub mod Journals
pub mod Parts
