pub mod Hosts
pub mod Lines
pub mod RegionsText
pub mod Laws
pub mod Examples
