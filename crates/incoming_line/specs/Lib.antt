pub mod Name
pub mod Arguments
pub mod Output
pub mod Line
pub mod Passing
pub mod Summary
