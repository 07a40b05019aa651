pub mod Notices
pub mod Memory
pub mod Standings
pub mod Lines
pub mod Deliveries
pub mod Laws
pub use Rattle.office_io.specs.Causes
