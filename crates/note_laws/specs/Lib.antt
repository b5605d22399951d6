pub mod Notes
pub mod Ways
