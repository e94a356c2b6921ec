pub mod Sets
pub mod Acks
pub mod Groups
pub mod Laws
