-- what contracts say of files, faults and bytes
pub mod Files
pub mod Faults
pub mod Bytes
pub mod Errors
pub mod Memory
