pub mod Filling
pub mod Sequences
pub mod Behind
pub mod Short
pub mod Sizes
pub mod Fitting
