-- what a reader of the crate's promises believes
pub mod Locals
pub mod Known
pub mod Patterns
pub mod Uses
pub mod Clauses
-- what the contracts of private functions say
pub mod parts
