pub mod Bools
pub mod Rounds
pub mod AsGood
pub mod Picks
pub mod Filing
pub mod Reaching
pub mod Found
