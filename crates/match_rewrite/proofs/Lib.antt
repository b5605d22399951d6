pub mod Sequences
pub mod FlatArms
pub mod FlatNodes
pub mod FlatModels
pub mod AreFlat
pub mod StepsBehind
pub mod Sizes
pub mod Numbered
