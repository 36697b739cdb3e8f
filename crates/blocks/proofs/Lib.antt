pub mod Cuts
pub mod Places
