pub mod Ways
pub mod AimedWalks
pub mod Assigned
pub mod CallTargets
