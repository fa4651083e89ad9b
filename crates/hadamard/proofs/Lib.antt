pub mod Entries
pub mod Sums
pub mod Signs
pub mod Powers
pub mod Butterflies
pub mod Halves
pub mod Blocks
