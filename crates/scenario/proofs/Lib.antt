pub mod Also
pub mod Changes
pub mod FitsReading
pub mod Keys
pub mod Loop
pub mod Turns
