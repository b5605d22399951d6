pub mod Same
pub mod Telling
pub mod Noted
pub mod Each
pub mod Closed
pub mod Asked
