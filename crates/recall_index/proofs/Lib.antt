pub mod Rising
pub mod Blocks
pub mod Sifting
pub mod Lists
pub mod Filters
