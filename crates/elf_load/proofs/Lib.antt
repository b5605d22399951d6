-- lemmas of the proofs
pub mod Numbers
pub mod Failures
pub mod Puts
pub mod Images
