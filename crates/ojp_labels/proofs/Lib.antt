pub mod LabelFacts
pub mod SlotFacts
pub mod FaultFacts
pub mod HearFacts
pub mod BoardFacts
pub mod TargetFacts
pub mod StartingFacts
