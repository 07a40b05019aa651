pub mod Changes
pub mod States
pub mod Logs
pub mod Laws
pub mod Pages
pub mod Stamps
pub use Rattle.road_graph.specs.Ranges
pub use Rattle.road_graph.specs.Roads
