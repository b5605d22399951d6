pub mod Functions
pub use Rattle.expression_notes.specs.Expressions
pub use Rattle.expression_notes.specs.Parts
pub use Rattle.expression_notes.specs.Statements
pub use Rattle.expression_notes.specs.Patterns
