pub mod Hops
pub mod Views
pub mod Networks
pub mod Days
pub mod Scans
pub mod Walks
pub mod Trips
