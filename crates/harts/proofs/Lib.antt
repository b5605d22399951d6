pub mod Events
pub mod Joined
pub mod Kept
pub mod Keeping
pub mod Resets
pub mod Schedules
