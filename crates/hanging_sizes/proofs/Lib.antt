pub mod Variables
pub mod Numbers
pub mod Free
pub mod Counts
pub mod Marked
pub mod Types
pub mod Payloads
