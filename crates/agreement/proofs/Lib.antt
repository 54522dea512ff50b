pub mod Before
pub mod Demand
pub mod Serving
