pub mod Nexts
pub mod Finished
pub mod Standing
pub mod Completing
pub mod Fronts
pub mod Seating
pub mod Asking
pub mod Issuing
