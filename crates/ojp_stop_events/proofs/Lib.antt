pub mod PlaceFacts
pub mod EventFacts
