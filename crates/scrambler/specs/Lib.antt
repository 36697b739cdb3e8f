pub mod Generator
pub mod Coding
pub mod Sequence
pub mod Finder
pub mod WorkedValues
