pub mod Models
pub mod Defined
pub mod Obligations
pub mod Reading
pub use Rattle.function_notes.specs.Functions
pub use Rattle.function_notes.specs.Expressions
pub use Rattle.function_notes.specs.Statements
pub use Rattle.function_notes.specs.Patterns
