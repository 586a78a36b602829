pub mod PartsFacts
pub mod NumberFacts
pub mod DayFacts
pub mod NoonFacts
