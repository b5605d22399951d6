pub mod Basics
pub mod Belonging
pub mod Filling
pub mod HeadShapes
pub mod Nexts
pub mod Unlike
pub mod UnnamedTypes
pub mod Zeroed
