pub mod Forms
pub mod Assigned
pub mod Steps
pub mod Found
pub mod Standing
