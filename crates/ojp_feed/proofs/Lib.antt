pub mod CauseFacts
pub mod TextFacts
