pub mod Xor
pub mod Codewords
pub mod Agreements
pub mod Tops
pub mod Spans
pub mod Tables
