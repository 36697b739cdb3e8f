pub mod Tally
pub mod Summary
pub mod Name
pub mod Arguments
pub mod F3Payload
pub mod Sending
