pub mod Office
pub mod Asking
pub mod Clerk
pub mod Laws
