pub mod Rides
pub mod Labels
pub mod Sweeps
pub mod Searches
pub mod Ranks
pub mod Rows
pub mod Rounds
