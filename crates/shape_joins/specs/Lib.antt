-- what a reader of the crate's promises believes
pub mod Joins
pub mod Filling
pub mod Order
pub mod Learning
pub mod Numbering
-- what the contracts of private functions say
pub mod Parts
