pub mod Replies
pub mod Verdicts
pub mod Versions
pub mod Seats
pub mod Auditors
pub use Rattle.office_core.specs.Machine
