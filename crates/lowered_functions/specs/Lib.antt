pub mod Made
pub use Rattle.lowered_nodes.specs.declared.walk.Walk
