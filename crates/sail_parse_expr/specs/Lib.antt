pub mod Behind
pub mod TargetLists
