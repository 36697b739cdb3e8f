pub mod Octets
pub mod Rings
pub mod Drains
