pub mod Progress
pub mod Feeding
pub mod Standing
