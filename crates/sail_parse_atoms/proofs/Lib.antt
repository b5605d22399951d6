pub mod AtomRows
pub mod BlockRows
pub mod LeafRows
