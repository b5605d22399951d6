-- what a reader of the crate's promises believes
pub mod Answer
pub mod Ending
pub mod Exit
pub mod Lines
pub mod Reading
pub mod Run
pub mod Seeded
pub mod Wanted
-- what follows from it
pub mod laws
-- what the contracts of private functions say
pub mod parts
pub use Rattle.sail_compile.specs.declared.models.Accepted
pub use Rattle.sail_compile.specs.Meanings
pub use Rattle.sail_compile.specs.Models
