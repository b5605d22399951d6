-- parts of patterns, and the forms that have several
pub mod Pieces
pub use Rattle.shape_widths.specs.Known
