pub mod DrawFacts
mod Examples
pub mod PlaceFacts
pub mod ResultFacts
pub mod StopFacts
