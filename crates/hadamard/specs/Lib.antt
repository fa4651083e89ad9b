pub mod Transform
pub mod Stages
