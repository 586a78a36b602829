pub mod AskFacts
pub mod ServedFacts
