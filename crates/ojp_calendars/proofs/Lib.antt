pub mod LabelFacts
pub mod MarkFacts
pub mod BoxFacts
pub mod NoonFacts
pub mod RuleFacts
