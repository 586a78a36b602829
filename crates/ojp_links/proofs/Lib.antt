pub mod RisingFacts
pub mod LegFacts
pub mod ResultFacts
pub mod ServedFacts
pub mod MoreFacts
pub mod KindFacts
pub mod FitFacts
