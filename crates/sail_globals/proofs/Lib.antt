pub mod Taking
pub mod Among
mod Roles
