pub mod Settings
pub mod Literals
pub mod Payloads
pub mod Widths
pub mod Annotations
