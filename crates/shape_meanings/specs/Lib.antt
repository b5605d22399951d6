-- shapes without an open part, and trees as texts have them
pub mod Whole
pub mod Counted
pub mod Trees
-- what a run keeps, and what a name means on both sides
pub mod Keeping
pub mod Worlds
pub mod Naming
-- the core means what the source means
pub mod Matching
pub mod Sound
pub mod Parts
pub mod Aims
-- definitions, and whole models
pub mod Models
-- what laws say
pub mod Choosing
pub mod Forms
pub mod StepForms
pub mod PartForms
pub mod PatternForms
pub mod CallForms
