pub mod Pieces
pub mod Refusals
pub mod Notes
pub mod Values
pub mod Words
pub mod Views
