pub mod AddingFacts
pub mod DayFacts
pub mod FateFacts
pub mod JourneyFacts
pub mod LabelFacts
pub mod RefusalFacts
pub mod RunFacts
pub mod ServedFacts
