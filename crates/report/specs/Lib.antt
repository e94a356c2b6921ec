pub mod Views
pub mod Report
pub mod Passing
