-- lemmas of the proofs
pub mod Little
