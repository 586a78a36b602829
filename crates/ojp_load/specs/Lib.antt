pub mod Asking
pub mod Loads
pub mod Ready
pub mod Replies
