pub mod Sizes
pub mod Parities
pub mod GroupRows
pub mod SlotSums
pub mod Over
pub mod Parts
pub mod Whole
