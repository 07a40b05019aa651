pub mod Desks
pub use Rattle.office_core.specs.Calls
pub use Rattle.office_core.specs.Counted
pub use Rattle.office_core.specs.Machine
pub use Rattle.office_core.specs.Offices
pub use Rattle.office_core.specs.Promises
pub use Rattle.office_turn.specs.Story
pub use Rattle.office_turn.specs.Told
