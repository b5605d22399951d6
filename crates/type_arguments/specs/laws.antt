pub mod Outside
pub mod Steady
