pub mod Ascii
pub mod Counts
pub mod Past
pub mod Wide
