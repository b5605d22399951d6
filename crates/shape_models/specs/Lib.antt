-- what a reader of the names of a model believes, in the order in which it is read
pub mod Overloads
pub mod Models
-- what the code holds of a model
pub mod Sources
pub mod Held
