pub mod Addresses
pub mod DemandOne
pub mod DemandThree
pub mod DemandTwo
pub mod Draws
pub mod HandlerIsFirmware
pub mod ModeStays
