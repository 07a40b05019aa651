pub mod Keeping
pub mod Sitting
pub mod Fronts
pub mod Differing
pub mod Finding
pub mod Passing
pub mod Following
