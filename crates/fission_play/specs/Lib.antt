pub mod Played
pub mod Status
