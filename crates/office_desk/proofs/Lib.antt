pub mod Turns
pub mod Looking
pub mod Answering
pub mod Sending
