pub mod Gives
pub mod Ids
pub mod ProcSet
pub mod Sharing
