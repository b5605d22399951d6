pub mod Choices
pub mod PatternRows
pub mod SetRows
pub mod TypeRows
