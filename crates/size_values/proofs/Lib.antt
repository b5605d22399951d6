pub mod Depths
pub mod Picks
pub mod Readings
pub mod Same
pub mod Steps
