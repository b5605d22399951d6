pub mod Belonging
pub mod Known
pub mod Laws
