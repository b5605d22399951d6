pub mod ArmLaws
pub mod Bodies
pub mod Models
