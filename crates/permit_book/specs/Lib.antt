pub mod Permits
pub mod Books
pub use Rattle.permit_days.specs.Days
