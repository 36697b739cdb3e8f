pub mod Ends
pub mod Spelling
pub mod Mending
