pub mod Side
pub mod Laws
