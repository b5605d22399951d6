pub mod Meanings
pub mod Held
