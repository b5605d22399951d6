pub mod Voids
pub mod Bodies
