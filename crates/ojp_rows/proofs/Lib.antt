pub mod BoardFacts
pub mod LinkFacts
