pub mod Conditions
pub mod Checks
pub mod Going
pub mod PatternRules
pub mod TargetRules
pub mod Rules
pub mod Meant
