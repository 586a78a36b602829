pub mod HaltFacts
pub mod StartFacts
