pub mod Run
pub mod Window
