pub mod ByHand
pub mod Refused
