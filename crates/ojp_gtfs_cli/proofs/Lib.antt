pub mod CauseFacts
pub mod LineFacts
pub mod RunFacts
pub mod WordFacts
