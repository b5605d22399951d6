pub mod Nodes
pub mod Spliced
pub mod Walked
pub mod Chained
pub use Rattle.constraint_gen.proofs.Lists
