pub mod Served
pub mod Workers
pub use Rattle.office_core.specs.Machine
pub use Rattle.office_core.specs.Promises
pub use Rattle.analyst_pool.specs.Unfolds
pub use Rattle.day_text.specs.Days
pub use Rattle.day_text.specs.Laws
pub use Rattle.day_text.specs.Scripts
