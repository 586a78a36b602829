pub mod CheckFacts
pub mod LoadFacts
pub mod RunFacts
pub mod WordFacts
