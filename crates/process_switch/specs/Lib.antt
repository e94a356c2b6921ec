pub mod Remote
pub mod Choice
