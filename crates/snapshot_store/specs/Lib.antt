pub mod Stores
pub mod Snapshots
pub use Rattle.restriction_log.specs.Changes
pub use Rattle.restriction_log.specs.States
pub use Rattle.restriction_log.specs.Logs
