mod Taken
pub mod Under
pub mod Present
