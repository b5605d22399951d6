pub mod Regions
pub mod Written
pub mod Behind
pub mod Bodies
pub mod Reading
pub use Rattle.constraint_gen.specs.Models
pub use Rattle.constraint_gen.specs.Functions
