pub mod Batch
pub mod Numbered
