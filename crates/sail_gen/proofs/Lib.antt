-- lemmas of the proofs
pub mod Drawn
pub mod Lengths
