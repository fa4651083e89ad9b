pub mod Strips
pub mod Finders
