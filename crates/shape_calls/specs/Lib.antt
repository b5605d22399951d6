pub mod Made
pub mod Apart
pub mod Picked
pub mod Ways
pub mod Structs
