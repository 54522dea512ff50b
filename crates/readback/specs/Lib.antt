pub mod Bits
pub mod Tables
pub mod Readback
