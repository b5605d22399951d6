pub mod Premises
pub mod Laws
pub mod Directions
pub mod Calls
pub mod Events
