pub mod Messages
pub mod Carried
pub mod Find
pub mod Examples
pub mod Laws
