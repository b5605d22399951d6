pub mod Bound
pub mod Namings
pub mod Clashes
pub mod Held
pub mod Globals
