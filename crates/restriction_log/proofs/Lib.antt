pub mod Elsewhere
pub mod Paging
pub mod Places
pub mod Stamping
pub mod Standing
