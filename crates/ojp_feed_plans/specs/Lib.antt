pub mod Adding
pub mod Days
pub mod Journeys
pub mod Labels
pub mod Plans
pub mod Refusals
pub mod Served
pub mod Tallies
