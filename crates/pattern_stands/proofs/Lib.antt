pub mod Seen
pub mod Binding
pub mod Forms
pub mod Heads
pub mod Words
pub mod Patterns
