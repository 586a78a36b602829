pub mod OutcomeFacts
pub mod ChangeFacts
pub mod BackFacts
