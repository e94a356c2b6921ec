pub mod Worked
pub mod Scripts
