pub mod Same
pub mod Spread
pub mod Printed
