pub mod Rewriting
pub mod Asked
pub mod Laws
pub mod Sizes
