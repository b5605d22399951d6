-- what a run reads, and what it ends with, is of its type
pub mod Belongs
-- so is what openings come to
pub mod Opened
