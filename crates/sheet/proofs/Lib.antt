pub mod Fronts
pub mod Adds
pub mod Checks
pub mod Books
pub mod Searches
pub mod Runs
