pub mod Paint
pub mod Lanes
pub mod Writing
pub mod Theorems
