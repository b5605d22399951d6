-- forms by what was made of their parts
pub mod Openness
pub mod Over
pub mod Structs
pub mod Aims
pub mod Steps
