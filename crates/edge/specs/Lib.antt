pub mod Causes
pub mod Input
pub mod Memory
pub mod Pieces
pub mod Standard
