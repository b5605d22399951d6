pub mod Arms
pub mod Behind
pub mod Grows
pub mod Bodies
pub mod Models
