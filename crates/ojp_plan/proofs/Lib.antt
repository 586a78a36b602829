pub mod OrderFacts
pub mod ReadFacts
pub mod ReadyFacts
pub mod PlanFacts
pub mod DueFacts
