pub mod Numbering
mod Nests
mod Growth
mod SteadyParts
mod SteadyRows
mod SteadyTargets
mod SteadyKinds
mod SteadyModels
pub mod Sentences
