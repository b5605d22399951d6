pub mod Callees
pub mod Cycles
