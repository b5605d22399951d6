-- each slot is declared before it is used
pub mod Ways
-- a measure is compared with that of the nearest active call of its cycle
pub mod Measures
-- each run of a valid module ends, in one way
pub mod Ends
