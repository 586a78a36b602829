pub mod CountFacts
pub mod DoubleFacts
pub mod LabelFacts
pub mod NameFacts
pub mod SeenFacts
