pub mod Divisors
pub mod Words
