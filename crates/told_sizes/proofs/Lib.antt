pub mod Counts
pub mod Only
pub mod Depths
pub mod Free
