pub mod Sender
pub mod Stream
