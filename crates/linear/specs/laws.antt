pub mod Divisors
pub mod Integers
pub mod Totals
pub mod Truths
pub mod Alternatives
pub mod Entailment
