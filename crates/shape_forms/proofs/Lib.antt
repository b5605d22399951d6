pub mod Left
pub mod Structured
mod FieldNames
mod Asked
