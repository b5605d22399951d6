pub mod Fuller
pub mod Lists
pub mod Numbered
pub mod Parameters
pub mod Placed
pub mod Sights
pub mod TypeVariables
