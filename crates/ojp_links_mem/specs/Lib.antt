pub mod Scripts
pub mod Regions
pub mod Pending
pub mod Memory
pub mod Kept
pub mod Files
