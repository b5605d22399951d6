pub mod Emitting
pub mod Framing
pub mod Pathing
