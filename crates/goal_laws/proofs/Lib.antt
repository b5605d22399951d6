pub mod Named
pub mod Closing
pub mod Models
