pub mod Posting
pub mod Runs
pub mod Octets
pub mod Events
pub mod Unasked
pub mod Fewness
pub mod Laws
