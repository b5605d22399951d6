-- what a reader of the phase believes, in the order in which it is read
pub mod Findings
pub mod Written
pub mod Scopes
pub mod Calls
pub mod Patterns
pub mod Targets
pub mod Values
pub mod Statements
pub mod Expressions
pub mod Sides
-- what the code holds of where an expression stands
pub mod Around
pub mod Sentences
-- what the contracts of private functions say
pub mod parts
