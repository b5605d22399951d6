pub mod Sources
pub mod Operands
pub mod Results
pub mod Widths
