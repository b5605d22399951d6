pub mod Failures
pub mod Scopes
pub mod Repeated
pub mod Builtin
pub mod Normal
