pub mod Edges
pub mod Kept
