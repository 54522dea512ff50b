pub mod Laws
pub mod Loop
