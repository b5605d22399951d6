pub mod Graphs
pub mod Components
pub mod Search
