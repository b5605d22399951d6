pub mod Points
pub mod Steps
pub mod Scenes
