pub mod LeafRows
pub mod ListRows
pub mod PieceRows
pub mod Spelled
pub mod VariableRows
