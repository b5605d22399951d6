-- the parts of trees, as the definitions see them
pub mod Trees
-- walks over parts, and the forms over a list of expressions
pub mod Walks
pub mod Heads
pub mod Calls
