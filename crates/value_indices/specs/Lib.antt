pub mod Steps
pub mod Walking
pub mod Force
pub mod Opening
pub use Rattle.sail_core.specs.declared.model.Function
