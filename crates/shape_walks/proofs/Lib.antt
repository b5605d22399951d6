pub mod PartPlaces
pub mod Walked
pub mod Formed
pub mod Infixes
pub mod Listed
pub mod Called
pub mod Taught
mod LastPlaces
mod Units
mod Recalled
mod ValuePlaces
