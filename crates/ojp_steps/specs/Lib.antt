pub mod Lent
pub mod Failures
pub mod Endings
pub mod Inputs
pub mod Pieces
pub mod Files
pub mod Serving
