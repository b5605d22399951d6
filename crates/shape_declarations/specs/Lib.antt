-- what a reader of the types that definitions write believes, in the order in which it is read
pub mod Zeros
pub mod Vals
pub mod Failures
pub mod Signatures
-- what the contracts of private functions say
pub mod Parts
-- what follows of it
pub mod Laws
