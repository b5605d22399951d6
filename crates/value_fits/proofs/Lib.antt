pub mod Depths
pub mod EachPair
pub mod Ends
pub mod Owed
