pub mod Opposites
pub mod Turns
