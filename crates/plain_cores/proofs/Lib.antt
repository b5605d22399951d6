pub mod Forms
pub mod Plain
pub mod Pieces
pub mod Steps
pub mod Decided
pub mod Numbered
