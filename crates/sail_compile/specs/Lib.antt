-- what a reader of the crate's promises believes
pub mod Checked
pub mod Engines
pub mod Meanings
pub mod Models
pub mod Refusals
pub mod Shaped
pub mod Variables
pub mod Zeros
-- what follows from it
pub mod laws
-- what the contracts of private functions say
pub mod parts
