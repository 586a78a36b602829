pub mod Texts
pub mod Markup
