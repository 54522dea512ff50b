pub mod Laws
pub mod Sampled
pub mod Theorems
