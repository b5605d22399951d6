pub mod Nodes
pub mod Whole
pub mod Fit
