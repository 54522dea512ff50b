pub mod Outcome
pub mod Left
pub mod Laws
