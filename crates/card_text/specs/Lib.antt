pub mod Lines
pub mod Drafts
pub mod Texts
pub mod Writers
pub mod Conversions
pub mod Sayings
