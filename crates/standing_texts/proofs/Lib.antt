pub mod OwnSizes
pub mod NamesFit
pub mod BodiesPass
pub mod MappingsPass
pub mod SidesRead
pub mod TextsRead
pub mod FoundOpenings
pub mod OpeningsPass
