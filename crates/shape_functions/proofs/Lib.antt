pub mod Noted
pub mod Settings
