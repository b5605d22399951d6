-- what the functions of the walk are given
pub mod Walkers
