pub mod Laws
pub mod Matches
pub mod Told
pub mod Patterned
pub mod Scenes
