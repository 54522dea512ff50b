pub mod Module
pub mod Phases
pub mod Drivers
pub mod Valid
pub mod Laws
pub mod Theorems
