pub mod Levels
pub mod Blank
pub mod Totals
pub mod Again
pub mod Writes
