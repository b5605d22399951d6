pub mod Limits
mod Parsed
