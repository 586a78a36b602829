pub mod Book
pub mod Kept
pub mod Points
pub mod Places
pub mod Tables
pub mod Joins
pub mod Disputes
