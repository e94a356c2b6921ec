pub mod Globs
pub mod Reading
pub mod Grammar
pub mod Matching
