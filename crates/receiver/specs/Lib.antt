pub mod Run
pub mod Handing
pub mod Event
pub mod Book
pub mod Feed
