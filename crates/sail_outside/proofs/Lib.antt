-- lemmas on reading and writing piece by piece, and on files in memory
pub mod Pieces
pub mod Stored
