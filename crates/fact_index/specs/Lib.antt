pub mod Keys
pub mod Filed
pub mod Gathered
pub mod Picked
