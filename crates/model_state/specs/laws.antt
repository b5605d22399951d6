-- what holds of the accesses of any calls of the builtins
pub mod Accesses
-- what a typed call of a builtin comes to as a part of a run
pub mod Results
