pub mod Noted
mod Scopes
mod Rows
mod Growth
