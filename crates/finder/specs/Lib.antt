pub mod Search
pub mod Sides
pub mod Same
pub mod Fold
pub mod PlainRows
pub mod Gather
pub mod OfCard
