pub mod Noted
pub mod CalledWalks
pub mod Fields
