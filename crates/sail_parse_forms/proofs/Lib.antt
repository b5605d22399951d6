pub mod ControlRows
pub mod FormRows
pub mod Loops
pub mod PartRows
