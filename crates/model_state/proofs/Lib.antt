-- lemmas of the proofs
pub mod Harts
pub mod Reported
pub mod Calling
pub mod Kept
pub mod Bytes
pub mod Ending
