pub mod Refusals
pub mod Folds
pub mod Picks
pub mod CardRows
