pub mod Rows
pub mod Echelon
pub mod Places
pub mod Cards
pub mod Tables
pub mod OpenCards
