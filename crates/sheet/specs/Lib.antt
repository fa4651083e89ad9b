pub mod Cells
pub mod Book
pub mod Stands
pub mod Runs
