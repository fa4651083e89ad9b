pub mod Echelons
pub mod Places
pub mod Decided
pub mod Tables
pub mod Pushes
pub mod Told
