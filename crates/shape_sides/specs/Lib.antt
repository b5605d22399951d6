-- the parts of a side, as the definitions see them
pub mod Trees
-- what the functions of the walk are given
pub mod Walkers
