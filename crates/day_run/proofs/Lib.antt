mod Lists
mod Fresh
pub mod Callers
mod Scripts
mod Histories
