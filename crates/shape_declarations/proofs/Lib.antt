pub mod Depths
pub mod Found
pub mod Told
