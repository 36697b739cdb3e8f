pub mod Number
pub mod Calls
pub mod End
