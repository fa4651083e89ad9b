pub mod FileBytes
pub mod LetIn
pub mod RoundTrip
pub mod RowsAdded
