pub mod Pieces
pub mod Hearing
pub mod Views
pub mod Subrequests
