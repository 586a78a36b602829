pub mod CodeFacts
pub mod ReadyFacts
