pub mod Walk
pub use Rattle.lowered_ends.specs.Around
