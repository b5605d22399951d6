pub mod Clauses
pub mod Sentences
pub mod Starts
pub mod Words
