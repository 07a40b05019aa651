pub mod WholeJournals
pub mod Certify
pub mod Carry
pub mod Judging
pub mod Carrying
pub mod Clerk
pub mod Laws
