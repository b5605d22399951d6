pub mod Ends
pub mod Noted
pub mod Taken
pub mod Rows
pub mod Calls
