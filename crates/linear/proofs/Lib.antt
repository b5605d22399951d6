pub mod Divisors
pub mod Additions
pub mod Same
pub mod Counts
