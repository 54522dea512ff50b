pub mod HandlerPart
pub mod Image
pub mod Laws
pub mod Theorems
