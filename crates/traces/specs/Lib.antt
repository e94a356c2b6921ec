pub mod Event
pub mod Links
pub mod Field
pub mod Words
pub mod Rules
pub mod Replay
pub mod Laws
pub mod Runs
