pub mod Limits
pub mod Refusals
pub mod RowTables
pub mod Words
pub mod Spans
