-- what contracts say of ELF64 files and their images
pub mod Fields
pub mod Placed
pub mod Reading
pub mod Refused
