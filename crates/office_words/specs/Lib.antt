pub mod Commands
pub use Rattle.trip_analysis.specs.Applications
pub use Rattle.trip_analysis.specs.Bases
