pub mod Window
pub mod Ring
