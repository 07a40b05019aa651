pub mod Standing
pub mod NextDay
pub mod Next
pub mod Beginning
pub mod Laws
