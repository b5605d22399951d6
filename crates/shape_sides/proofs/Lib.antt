pub mod Opened
pub mod SidePlaces
pub mod Listed
pub mod Called
