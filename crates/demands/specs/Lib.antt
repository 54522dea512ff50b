pub mod Calls
pub mod Demands
pub mod ModeStays
