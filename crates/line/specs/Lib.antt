pub mod Heard
pub mod Headers
pub mod Laws
pub mod Receiving
pub mod Sending
pub mod Theorem
pub mod Instances
