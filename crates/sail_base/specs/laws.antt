pub mod BitLaws
pub mod BitNumbers
pub mod BitShapes
pub mod BitSigns
pub mod WordNumbers
pub mod WordParts
