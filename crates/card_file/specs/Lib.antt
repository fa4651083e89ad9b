pub mod Files
pub mod FileRows
