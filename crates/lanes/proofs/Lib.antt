pub mod Drawing
pub mod Laws
pub mod Painting
