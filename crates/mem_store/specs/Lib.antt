-- what contracts say of memory
pub mod Bytes
pub mod laws
