mod EntryPoints
mod Noted
mod Putting
mod Signed
pub mod OneFailure
