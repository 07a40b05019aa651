pub mod Legal
pub mod Naming
pub mod Meeting
pub mod Agreeing
pub mod Failing
