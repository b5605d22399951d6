pub mod Refusals
pub mod Found
pub mod Reading
pub mod Steps
pub mod Lasts
pub mod Instances
pub use Rattle.size_notes.specs.Bodies
pub use Rattle.size_notes.specs.Functions
