-- what a reader of the phase believes of whole models, in the order in which it is read
pub mod Failures
pub mod Resolved
pub mod Tabled
-- what the contracts of private functions say
pub mod Parts
