pub mod Stable
pub mod Growing
pub mod Asking
pub mod Prefixes
