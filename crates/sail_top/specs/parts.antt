pub mod Borrowed
pub mod Finished
pub mod Short
pub mod Unread
