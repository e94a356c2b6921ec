pub mod Places
pub mod Ring
pub mod Lanes
pub mod Moves
pub mod Keeps
pub mod Making
pub mod Calls
pub mod Shows
