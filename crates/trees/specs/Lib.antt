pub mod Look
pub mod Words
pub mod Children
pub mod Rules
pub mod Laws
pub mod Runs
