pub mod Fates
pub mod Halts
pub mod Starts
