pub mod Places
pub mod Serving
pub mod Writing
pub mod Resuming
pub mod Ready
