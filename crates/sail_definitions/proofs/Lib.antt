pub mod ClauseRows
pub mod DefinitionRows
pub mod FunctionRows
pub mod LeafRows
