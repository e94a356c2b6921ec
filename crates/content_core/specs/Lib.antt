pub mod Content
pub mod Held
pub mod Moved
pub mod Steps
