pub use Rattle.influence_line.specs.Fractions
pub use Rattle.influence_line.specs.Peaks
pub use Rattle.influence_line.specs.Spans
pub use Rattle.moment_peak.specs.PeakMoment
pub use Rattle.shear_peak.specs.PeakShear
pub mod Convoys
pub mod Refusals
