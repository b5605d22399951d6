-- what a reader of the numbers believes
pub mod Numbers
pub mod Laws
