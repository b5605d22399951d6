pub mod Steps
pub mod Lets
pub mod Own
pub mod Named
