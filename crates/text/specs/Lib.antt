pub mod Text
pub mod Page
pub mod Pen
