pub mod Wholes
pub mod Leaving
pub mod Seats
pub mod Asking
pub use Rattle.day_text.specs.Scripts
pub use Rattle.office_core.specs.Happened
pub use Rattle.office_core.specs.Machine
pub use Rattle.analyst_pool.specs.Unfolds
