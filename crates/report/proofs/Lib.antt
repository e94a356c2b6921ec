pub mod Gathered
pub mod Written
pub mod Room
pub mod Counting
