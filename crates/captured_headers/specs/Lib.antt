pub mod LineEnd
pub mod Capture
pub mod Fault
pub mod Reading
pub mod Finding
pub mod Report
pub mod Remark
pub mod Tally
