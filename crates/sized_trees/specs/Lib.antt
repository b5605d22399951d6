pub mod Within
pub mod Combinations
pub mod Cases
pub mod Bodies
pub mod Whole
pub mod Trees
pub mod Laws
