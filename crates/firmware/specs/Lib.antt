pub mod Handler
pub mod Window
