pub mod Firsts
pub mod Freshes
pub mod Givens
pub mod Integers
pub mod KnownCalls
pub mod Owed
pub mod Turns
