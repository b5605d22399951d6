pub mod Connected
pub mod Spreading
pub mod Naming
pub mod Closing
pub mod Owed
pub mod Texts
