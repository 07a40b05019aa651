mod Limiting
mod Fitting
mod Asking
mod Keys
pub mod ReadingBack
pub mod Headlines
pub mod Telling
