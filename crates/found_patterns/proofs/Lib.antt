pub mod Looks
pub mod Meant
pub mod Patterns
