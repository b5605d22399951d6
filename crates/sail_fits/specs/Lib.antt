-- a type without the names of what it binds
pub mod Unnamed
-- what follows from the definitions
pub mod laws
-- what the contracts of private functions say
pub mod parts
