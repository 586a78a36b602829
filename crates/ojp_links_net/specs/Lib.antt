pub mod Sockets
pub mod Pending
pub mod Progress
pub mod Counting
pub mod Regions
pub mod Table
pub mod Kept
pub mod Links
