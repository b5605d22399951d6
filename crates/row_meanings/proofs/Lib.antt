pub mod Given
pub mod State
pub mod Arguments
pub mod Members
pub mod Apart
pub mod Standing
pub mod Going
