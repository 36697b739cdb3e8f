pub mod Block
pub mod BlockSource
pub mod BlockSink
