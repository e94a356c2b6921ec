pub mod Faults
pub mod Members
pub mod Reading
pub mod Fits
