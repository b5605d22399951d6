pub mod Noted
pub mod Rests
