pub mod Notes
pub mod Signed
pub mod Bodies
pub mod Cores
