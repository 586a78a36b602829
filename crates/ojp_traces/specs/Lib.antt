pub mod Lines
pub mod TurnEvents
pub mod Traces
pub mod TraceExamples
