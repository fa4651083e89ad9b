pub mod Tested
pub mod Worked
