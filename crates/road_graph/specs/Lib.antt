pub mod Ranges
pub mod Words
pub mod Roads
pub mod Adding
pub mod Lists
pub mod Kept
pub use Rattle.names.specs.Names
