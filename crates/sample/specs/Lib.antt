pub mod Levels
pub mod Samples
