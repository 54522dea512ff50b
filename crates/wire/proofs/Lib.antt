pub mod AsWord
