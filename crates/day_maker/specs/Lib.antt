pub mod Making
pub mod Texts
pub mod Made
pub mod Fields
pub mod Laws
