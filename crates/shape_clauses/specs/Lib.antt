-- what a reader of functions, measures and mappings believes, in the order in which it is read
pub mod Clauses
pub mod Functions
pub mod Mappings
pub mod Laws
-- what the contracts of private functions say
pub mod Parts
