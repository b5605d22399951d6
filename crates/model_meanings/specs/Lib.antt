pub mod Callees
pub mod Models
pub mod Depths
pub mod Events
pub mod Runs
