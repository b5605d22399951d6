pub mod Items
pub mod Fits
pub mod Checked
pub mod Alike
pub mod Laws
