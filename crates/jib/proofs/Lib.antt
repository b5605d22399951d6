pub mod Ticking
pub mod Falls
pub mod Ends
pub mod Determined
mod NearestLaws
mod UnderLaws
mod OpenedLaws
mod EachLaws
pub mod ValidLaws
mod Declares
mod Constants
