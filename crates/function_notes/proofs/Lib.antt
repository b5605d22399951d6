pub mod Lists
pub mod Stripped
pub mod Walked
pub mod Chained
pub mod Bodies
pub mod Lasts
