pub mod SearchingFacts
