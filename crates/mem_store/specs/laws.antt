-- what holds of the definitions
pub mod AreBytes
pub mod Overwritten
pub mod Words
