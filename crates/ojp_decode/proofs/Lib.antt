pub mod Following
pub mod Standings
pub mod Readings
pub mod Counts
mod Bytes
