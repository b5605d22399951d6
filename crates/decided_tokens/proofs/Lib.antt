pub mod Ranks
pub mod Ending
pub mod Decided
