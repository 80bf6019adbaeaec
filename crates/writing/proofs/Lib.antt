pub mod Puts
pub mod Whole
