pub mod ReadShapes
