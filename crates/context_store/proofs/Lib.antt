pub mod Contexts
pub mod Entries
pub mod Joining
pub mod Masks
pub mod Records
pub mod Runs
