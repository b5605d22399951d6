pub mod Aims
pub mod Callees
pub mod Holes
pub mod Placing
pub use Rattle.wide_types.specs.Widening
