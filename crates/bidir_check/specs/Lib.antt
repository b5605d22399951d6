pub mod Certification
pub mod Checking
pub mod Printed
pub mod laws
