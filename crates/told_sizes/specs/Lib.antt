pub mod Exact
pub mod Passing
pub mod Among
