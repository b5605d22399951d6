pub mod Rewriting
pub mod Laws
pub mod Sizes
pub mod Pushed
