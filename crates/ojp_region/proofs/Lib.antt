pub mod BoundFacts
pub mod PairFacts
pub mod PointListFacts
