pub mod Counts
pub mod Laws
pub mod Told
pub mod Apart
