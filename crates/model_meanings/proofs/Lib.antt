pub mod Constructors
pub mod Callees
pub mod Names
pub mod Worlds
pub mod Depths
pub mod Events
pub mod Runs
