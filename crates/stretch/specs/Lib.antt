pub mod Walk
pub mod Walking
pub mod Seen
pub mod Stretch
