pub mod Content
pub mod Marked
pub mod Joined
pub mod Ops
