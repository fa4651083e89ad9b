pub mod Opposites
pub mod Kinds
