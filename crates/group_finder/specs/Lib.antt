pub mod Choices
pub mod Concurring
