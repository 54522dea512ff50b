pub mod Wire
pub mod Byte
pub mod Laws
pub mod Mask
