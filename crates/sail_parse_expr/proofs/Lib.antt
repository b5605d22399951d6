pub mod AssignmentRows
pub mod ExpressionRows
pub mod LeafRows
pub mod OperatorRows
pub mod TargetRows
