pub mod Report
pub mod Worked
pub mod Played
