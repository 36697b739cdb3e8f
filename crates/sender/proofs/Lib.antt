pub mod Octets
pub mod Phases
pub mod Streams
