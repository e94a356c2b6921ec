pub mod Lanes
pub mod Plays
pub mod Seats
pub mod Ends
pub mod Joined
pub mod Shown
