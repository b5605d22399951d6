pub mod Program
pub mod Numbers
pub mod Line
