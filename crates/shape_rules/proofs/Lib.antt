pub mod Firsts
pub mod Found
pub mod Kept
pub mod Left
pub mod Under
pub mod Trees
