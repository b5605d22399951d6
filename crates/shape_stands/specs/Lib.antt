pub mod Inside
pub mod Manner
pub mod Stands
