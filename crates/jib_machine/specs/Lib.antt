pub mod Events
pub mod parts
