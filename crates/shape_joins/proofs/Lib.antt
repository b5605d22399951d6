pub mod Counts
pub mod JoinsLeast
pub mod Learnt
pub mod Order
