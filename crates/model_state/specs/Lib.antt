-- what contracts say of a state, of the builtins that read or write it, and of runs
pub mod Folds
pub mod laws
pub mod Report
pub mod RunState
pub mod StateRows
-- what the contracts of private functions say
pub mod parts
pub use Rattle.mem_store.specs.Bytes
pub use Rattle.mem_store.specs.laws.Words
pub use Rattle.mem_store.specs.laws.Overwritten
