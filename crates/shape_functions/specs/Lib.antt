-- what the contracts of private functions say
pub mod Parts
