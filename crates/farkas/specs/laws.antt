pub mod Soundness
pub mod Entailment
