pub mod Ends
pub mod Ending
pub mod Laws
