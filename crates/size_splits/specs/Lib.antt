pub mod Bodies
pub mod Sizing
pub mod Splits
pub mod Reading
pub mod Telling
pub mod Alone
