pub use Rattle.axle_train.specs.Bounds
pub use Rattle.influence_line.specs.Fractions
pub use Rattle.influence_line.specs.Peaks
pub use Rattle.influence_line.specs.Spans
pub mod Loading
pub mod Judgement
pub mod Laws
pub mod Carrying
