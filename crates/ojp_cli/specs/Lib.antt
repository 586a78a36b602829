pub mod Words
pub mod Commands
pub mod Checks
pub mod Runs
