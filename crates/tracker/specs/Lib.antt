pub mod Window
pub mod Rules
pub mod Events
pub mod Tracker
pub mod Reading
pub mod Display
pub mod Deciding
