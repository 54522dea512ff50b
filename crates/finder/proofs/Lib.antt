pub mod Extent
pub mod Laws
pub mod Theorems
pub mod BadLevel
