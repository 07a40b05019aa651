pub mod Shapes
pub mod Orders
pub mod Numbers
