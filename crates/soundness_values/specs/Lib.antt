pub mod Widening
pub mod Likeness
pub mod Narrow
pub mod Named
pub mod Laws
