pub mod Words
pub mod Standing
pub mod Counting
pub mod Rounds
pub mod Marks
