pub mod Parts
pub mod Splits
pub mod Numbers
pub mod Days
pub mod Zones
pub mod Noons
pub mod Laws
