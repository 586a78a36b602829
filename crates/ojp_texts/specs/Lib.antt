pub mod PointsSaid
pub mod Spelled
