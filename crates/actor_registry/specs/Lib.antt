pub mod Admission
pub mod Registry
