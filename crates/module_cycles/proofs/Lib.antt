pub mod Falls
pub mod Ways
pub mod Models
