pub mod Readback
