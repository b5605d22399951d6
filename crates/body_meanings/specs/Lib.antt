pub mod Bodies
pub mod Sides
pub mod Calls
pub mod Numbers
pub mod Standing
pub mod Widths
pub mod Directions
pub mod Callees
