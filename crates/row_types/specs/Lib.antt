pub mod Formulas
pub mod RowTypes
pub mod Calls
pub mod Goals
pub mod laws
pub use Rattle.builtins.specs.RowValues
