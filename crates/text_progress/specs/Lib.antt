pub mod ParsedTexts
pub mod Entries
pub mod Full
pub mod GivenTypes
pub mod Manners
pub mod Laws
pub mod Openings
pub mod Positions
