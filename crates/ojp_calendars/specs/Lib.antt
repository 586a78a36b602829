pub mod Days
pub mod Files
pub mod Labels
pub mod Marks
pub mod Noons
pub mod Rules
pub mod Texts
