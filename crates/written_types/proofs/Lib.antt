pub mod BoundNames
mod Exponents
pub mod Forms
pub mod Rows
pub mod Texts
