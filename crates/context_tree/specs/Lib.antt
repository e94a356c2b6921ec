pub mod Laws
pub mod Node
pub mod Places
pub mod Tree
