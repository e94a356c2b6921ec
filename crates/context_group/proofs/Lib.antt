pub mod Lists
pub mod SetLemmas
pub mod AckLemmas
pub mod Places
pub mod Soundness
pub mod Members
pub mod Kept
