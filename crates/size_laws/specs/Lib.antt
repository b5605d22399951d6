pub mod Known
pub mod Settled
pub mod Told
pub mod Laws
