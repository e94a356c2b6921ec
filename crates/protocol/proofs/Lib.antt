pub mod Notes
pub mod Judging
pub mod Readings
pub mod Same
