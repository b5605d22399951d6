pub mod Judging
pub mod Asked
pub mod Here
pub mod Counts
pub mod Judged
