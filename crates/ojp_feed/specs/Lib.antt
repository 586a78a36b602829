pub mod Converting
pub mod Texts
