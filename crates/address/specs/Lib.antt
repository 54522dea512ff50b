pub mod Comparison
pub mod Theorems
