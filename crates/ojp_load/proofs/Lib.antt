pub mod CountFacts
pub mod LinkFacts
pub mod PostFacts
pub mod ReplyFacts
pub mod ResultFacts
pub mod SummaryFacts
pub mod TripFacts
