pub mod Draws
pub mod Regions
pub mod Networks
