pub mod AlikeFacts
pub mod TraceFacts
