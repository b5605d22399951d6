pub mod Able
pub mod Around
pub mod Keeping
pub mod Ends
pub mod Noted
pub mod Targets
pub mod Cells
