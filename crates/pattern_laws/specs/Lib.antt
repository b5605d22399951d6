pub mod Beside
pub mod Typing
pub mod Standing
pub mod Grounds
pub mod Laws
