pub mod EndFacts
pub mod FileFacts
pub mod InputFacts
pub mod LineFacts
pub mod PieceFacts
pub mod ServingFacts
