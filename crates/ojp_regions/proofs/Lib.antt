pub mod PortFacts
pub mod HostFacts
pub mod RegionFacts
pub mod ReadFacts
pub mod ExampleFacts
