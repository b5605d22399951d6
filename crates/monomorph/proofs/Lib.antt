pub mod Over
pub mod Given
pub mod Noted
pub mod Lasting
