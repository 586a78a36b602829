pub mod PieceFacts
pub mod HearingFacts
pub mod SubFacts
pub mod PollFacts
pub mod BeginFacts
pub mod HeldFacts
