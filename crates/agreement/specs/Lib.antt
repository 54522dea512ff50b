pub mod Joint
pub mod Record
pub mod Before
