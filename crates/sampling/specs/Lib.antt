pub mod Rules
pub mod Still
