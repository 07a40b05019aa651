pub use Rattle.influence_line.specs.Peaks
pub use Rattle.influence_line.specs.Spans
pub use Rattle.span_rating.specs.Loading
pub mod Design
pub mod Effects
pub mod Laws
pub mod Kept
