pub mod Own
pub mod Kinds
pub mod Laws
