pub mod Doubles
pub mod Labels
pub mod Repeats
